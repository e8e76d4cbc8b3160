pub mod Names
pub mod Meanings
pub mod Contents
pub mod Remarks
pub mod Shown
pub mod Lines
pub mod Hidden

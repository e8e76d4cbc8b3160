pub mod Blocks
pub mod Headers
pub mod Lines

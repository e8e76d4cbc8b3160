pub mod Lines
pub mod Notices
pub mod Outcomes
pub mod Slices

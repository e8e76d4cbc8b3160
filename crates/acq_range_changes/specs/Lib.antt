pub mod Changes
pub mod Lines
pub mod Gathering
pub mod Worked

pub mod Stream
pub mod Worked

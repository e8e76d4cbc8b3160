pub mod Stepping
pub mod Staying

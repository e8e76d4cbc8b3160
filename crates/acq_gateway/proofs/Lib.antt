pub mod Saying
pub mod Taking

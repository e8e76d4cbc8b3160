pub mod Messages
pub mod Scripts

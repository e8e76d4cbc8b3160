pub mod Written
pub mod Widened
pub mod Refused
pub mod Apart

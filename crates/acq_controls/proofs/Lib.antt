pub mod Acting
mod Placing
pub mod Staying
mod Rounds

pub mod Turns
pub mod Exchanges
pub mod Asking
pub mod Puts
pub mod Codes
pub mod Repeats

pub mod Turning
pub mod CountedUp

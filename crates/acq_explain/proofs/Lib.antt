pub mod InTurn
pub mod Passing

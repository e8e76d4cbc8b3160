pub mod FoundIn
pub mod RunsLeft

pub mod Runs
pub mod Looked
pub mod Shown

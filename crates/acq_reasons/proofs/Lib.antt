pub mod FirstChecks
pub mod Explained

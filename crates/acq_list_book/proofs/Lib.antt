pub mod Showing
pub mod Sorting

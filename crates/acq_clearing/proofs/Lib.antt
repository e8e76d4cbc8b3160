pub mod ReadBack
pub mod Cleared
pub mod Numbers
pub mod Rows
mod Slices

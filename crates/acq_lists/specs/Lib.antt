pub mod Stored
pub mod Keys
pub mod Rows
pub mod Sums
pub mod Indexes

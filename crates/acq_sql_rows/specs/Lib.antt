pub mod Schema
pub mod Tallies
pub mod Rows
pub mod ReadBack
pub mod Relation
pub mod Queries
pub mod Texts
pub mod Standing

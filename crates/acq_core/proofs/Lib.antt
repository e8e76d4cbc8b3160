pub mod Statuses
pub mod DecisionCases
pub mod Counts

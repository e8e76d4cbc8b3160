pub mod Compared
pub mod Differences
pub mod Answered
pub mod Audited

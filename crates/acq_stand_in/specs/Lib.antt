pub mod Answers
pub mod Pending
pub mod Worked

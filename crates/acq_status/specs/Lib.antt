pub mod Figures
pub mod Visitors
pub mod Names
pub mod Replies
pub mod Texts
pub mod Worked

pub mod Answers
pub mod Connections
pub mod Figures
pub mod Pages
pub mod Replies
pub mod Requests

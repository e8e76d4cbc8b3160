pub mod Keyed
pub mod KeyTests
pub mod Places
pub mod Edits
pub mod Counting
pub mod Days
pub mod Edited

pub mod Following
pub mod Parting
pub mod Told

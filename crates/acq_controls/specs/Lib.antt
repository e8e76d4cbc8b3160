pub mod Aside
pub mod Following
pub mod Going
pub mod Parting

pub mod Checks
pub mod Details
pub mod Differing
pub mod Explained
pub mod Figures
pub mod Laws

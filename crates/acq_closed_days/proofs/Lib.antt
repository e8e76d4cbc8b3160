pub mod Closed
pub mod Figures

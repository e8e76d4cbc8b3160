pub mod Faults
pub mod Made
pub mod Blames
pub mod Plain
pub mod Checked

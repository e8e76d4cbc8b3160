pub mod ClearingFile
pub mod ClearedSums
pub mod Gathering
pub mod Slices
pub mod Worked

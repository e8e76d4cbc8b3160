pub mod BookFiles
pub mod Found
pub mod Hosts
pub mod StoppedRuns

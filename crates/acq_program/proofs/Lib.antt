pub mod Closing
pub mod Quiet
pub mod AskedCommands
pub mod OptionsRead
pub mod ProgramIsSimple
pub mod WantedMerchants
pub mod WantedReports
mod Ends
mod TablesRead

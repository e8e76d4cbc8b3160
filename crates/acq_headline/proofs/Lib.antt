pub mod PartiesAlone
pub mod Closed
pub mod ServedAlone
pub mod RunsEnd
pub mod MerchantsRecords
pub mod RunsClear
pub mod ToldStays

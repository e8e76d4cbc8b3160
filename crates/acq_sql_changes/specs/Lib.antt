pub mod Changed
pub mod Transactions
pub mod Refused

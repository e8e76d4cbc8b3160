pub mod Codes
pub mod Reasons
pub mod Truths
pub mod Laws
pub mod Words

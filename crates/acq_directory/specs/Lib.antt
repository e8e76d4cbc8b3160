pub mod Listings
pub mod Worked

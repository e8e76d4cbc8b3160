pub mod Day
pub mod Digits
pub mod Totals
pub mod TotalsView

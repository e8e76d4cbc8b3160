pub mod Faults
pub mod Ends
pub mod Serving
pub mod DayReport

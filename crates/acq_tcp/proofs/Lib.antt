pub mod Beside
pub mod Reaching
pub mod Serving

pub mod Listed
pub mod Looking

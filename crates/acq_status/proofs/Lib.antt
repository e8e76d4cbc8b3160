pub mod Appended
mod NoneWaits

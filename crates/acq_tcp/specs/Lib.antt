pub mod Frames
pub mod Had
pub mod Issuers
pub mod Others
pub mod Passing
pub mod Past
pub mod Rounds
pub mod Terminals

pub mod PostedByLegs
pub mod ChangesLooked
pub mod ChangesFail

pub mod Chains
pub mod LookedUp
pub mod NewRows
pub mod ChangesFit
pub mod Runs
pub mod Groups

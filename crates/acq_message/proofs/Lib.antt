pub mod ElementsFit
pub mod NeededElements
pub mod AddedElements

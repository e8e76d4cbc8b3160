pub mod WaitingRows
pub mod CountedRows
pub mod RecalledRows
pub mod FilledParts
pub mod RecallingCalls
pub mod ShownRows
pub mod LearnedWaiting

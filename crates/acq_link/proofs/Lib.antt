pub mod EmptyStruct
mod FilledFrames
pub mod FirstMessages
pub mod FramesInOrder
pub mod FramesReadOnce
pub mod RestKept
pub mod WholeTransfers
pub mod WrittenFrames

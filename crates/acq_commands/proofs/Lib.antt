mod Answering
pub mod EventsTaken
pub mod Explanations
pub mod ConnectionsServed
pub mod GroupsTaken
pub mod LinesWritten
pub mod MadeMessages
pub mod ReportsEnd
pub mod ReportsWritten
pub mod ServedInMemory
pub mod ShownFrames
pub mod FaultsTold

pub mod LinesRead
pub mod FirstLine

pub mod LinesOfDay
pub mod ValuesOfRecords
pub mod AnswersReadBack

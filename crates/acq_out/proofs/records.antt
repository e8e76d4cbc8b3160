pub mod RecordFields
pub mod RecordsRead
pub mod EachRecord

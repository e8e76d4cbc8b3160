pub mod Headline
pub mod Clearing
pub mod ServedAlone
pub mod ClearedAsTold
pub mod OnlyWhatMay
pub mod WithinHolds

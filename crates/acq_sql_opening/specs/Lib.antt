pub mod Migrated
pub mod Ordered
pub mod Files

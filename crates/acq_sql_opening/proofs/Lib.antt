pub mod NewBook
pub mod OpenedBooks
pub mod LooksFirst

pub mod SchemaLemmas
pub mod TextLemmas
pub mod TablesReadBack
pub mod SameKeys
pub mod DistinctKeys
pub mod TableTurns

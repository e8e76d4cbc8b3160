pub mod KeyTests
pub mod Counting
pub mod Days
pub mod Chains
pub mod GroupChains

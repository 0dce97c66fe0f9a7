pub mod Areas
pub mod Indexes
pub mod KeyIndexes

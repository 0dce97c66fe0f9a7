pub mod Compared
pub mod KeyBlocks

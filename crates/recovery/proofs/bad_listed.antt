pub mod BadBlocks
pub mod BadListed
pub mod FreeLists

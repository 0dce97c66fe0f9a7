pub mod FoundBlocks
pub mod ListParts
pub mod OpenedParts
pub mod OpensFound
pub mod Spots

pub mod ErasesInOrder
pub mod FirstVacancies
pub mod FreedVictims
pub mod StaleBlocks

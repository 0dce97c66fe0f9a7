pub mod KeyPlaces
pub mod PageIndexes
pub mod TableKept

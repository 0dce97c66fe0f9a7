pub mod GapLists
pub mod ListedCells

pub mod CrashedCells
pub mod EmptyCells
pub mod KeptNumberFound
pub mod NewestFound
pub mod StandsForOne
pub mod StandsForSomething

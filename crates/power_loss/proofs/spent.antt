pub mod BeforeTheFirstMark
pub mod BlockLost
pub mod BlockLostAtAnyMoment
pub mod CellsLost
pub mod ErasedIsSpent
pub mod FreeIsSpare

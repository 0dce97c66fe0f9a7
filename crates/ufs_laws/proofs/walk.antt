pub mod Happenings
pub mod LayerEffects
pub mod SmallChanges
pub mod TaskLaws
pub mod VolatileChanges
pub mod WaysOfCommands
pub mod WaysOfData

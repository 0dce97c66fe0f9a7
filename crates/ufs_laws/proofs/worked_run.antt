pub mod MessagesSaid
pub mod RunEvents
pub mod RunLife
pub mod RunStates

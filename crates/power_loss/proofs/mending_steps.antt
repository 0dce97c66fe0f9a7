pub mod TurnsLeft
pub mod TurnsOfALife

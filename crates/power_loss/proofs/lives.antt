pub mod ChainedLives
pub mod EachEventKeeps
pub mod LivesOfRuns
pub mod LostKeys
pub mod NextLife
pub mod StopsOfRuns

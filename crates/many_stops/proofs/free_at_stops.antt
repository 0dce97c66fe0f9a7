pub mod BeforeAnyStep
pub mod FreeAtStops
pub mod FreeAndStale
pub mod JobsKeepFree
pub mod MovesKeepFree
pub mod OneStaleBlock

pub mod LockStays
pub mod SettledAgree
pub mod EventsAgree
pub mod KeptEntries
pub mod LivesAgree
pub mod BaseRegions
pub mod HeardLives
pub mod MessagesAlone

pub mod Entries
pub mod Heard
pub mod Queries
pub mod Requests
pub mod Shown
pub mod Tasks
pub mod Unmaps
pub mod Writes

pub mod Hashes
pub mod Keyed
pub mod Lanes
pub mod One

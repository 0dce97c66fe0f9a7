pub mod Entries
pub mod LostKeys
pub mod NewestPages

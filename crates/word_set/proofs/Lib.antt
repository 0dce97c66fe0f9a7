pub mod Flags
pub mod Places
pub mod WordBits

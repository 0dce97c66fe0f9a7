pub mod Filled
pub mod MarkRead
pub mod Sealed
pub mod Told

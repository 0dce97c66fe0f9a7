pub mod Frames
pub mod Kept
pub mod Lists
pub mod Rooms
pub mod Sets
pub mod Shorts
pub mod Tasks

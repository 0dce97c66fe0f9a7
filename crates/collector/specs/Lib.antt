pub mod Plans
pub mod Rooms

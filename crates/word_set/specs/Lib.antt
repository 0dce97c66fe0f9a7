pub mod Flags
pub mod QueueRooms
pub mod Tests
pub mod WordRooms

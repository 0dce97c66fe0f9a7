pub mod Lines
pub mod Messages
pub mod Queues
pub mod Writes

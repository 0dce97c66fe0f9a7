pub mod Answers
pub mod Checks
pub mod Kept
pub mod Outcomes
pub mod Requests
pub mod Rooms

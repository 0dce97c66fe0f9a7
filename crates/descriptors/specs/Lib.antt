pub mod Answers
pub mod Asks
pub mod Bytes
pub mod Codes
pub mod Lines
pub mod Rows
pub mod States

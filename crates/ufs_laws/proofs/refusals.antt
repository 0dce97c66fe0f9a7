pub mod AttentionLines
pub mod LockedFlush
pub mod ProfileLines
pub mod RefusedCommands
pub mod ShortWrites
pub mod TableLines
pub mod TakenRequests
pub mod WholeWrites

pub mod HostMessages
pub mod Reading
pub mod Rejects
pub mod Replies

pub mod MessagesKeepShown
pub mod MovesKeepShown

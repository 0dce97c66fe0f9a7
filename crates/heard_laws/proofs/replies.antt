pub mod RepliesAgree
pub mod ShortRepliesAgree

pub mod Resolving
pub mod Listening
pub mod HeardHeadline

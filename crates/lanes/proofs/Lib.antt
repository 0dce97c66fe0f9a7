mod Common
pub mod Back
pub mod Dealing
pub mod DoneJobs
pub mod Ended
pub mod Growing
pub mod LateReplies
pub mod Made
pub mod Moves
pub mod Opened
pub mod Promises
pub mod Served
pub mod TaggedMessages
pub mod Telling
pub mod Vectors
pub mod Waited

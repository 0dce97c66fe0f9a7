pub mod TaggedFinds
pub mod TaskFinds
pub mod OpenTasks

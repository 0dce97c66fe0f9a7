mod Common
pub mod described
pub mod die_calls
pub mod dies_of_world
pub mod due_replies
pub mod host_messages
pub mod managed
pub mod open_tasks

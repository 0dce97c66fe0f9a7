mod Common
pub mod collected
pub mod FirstWaiting
pub mod group_settled
pub mod job_ended
pub mod job_taken
pub mod live_pages
pub mod look_and_accept
pub mod opened
pub mod pages
pub mod pins
pub mod rests_owed
pub mod small_calls
pub mod steps_ordered
pub mod stopped

mod Common
mod agreement
mod host_data
pub mod lives
mod messages
mod open_under_tags
mod replies
mod rolls

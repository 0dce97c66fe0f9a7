pub mod Contents
pub mod Jobs
pub mod Owed

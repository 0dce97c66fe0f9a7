pub mod States
pub mod Surveys

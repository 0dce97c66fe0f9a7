pub mod Checked
pub mod Images
pub mod Spelling
pub mod Trials

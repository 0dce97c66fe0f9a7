pub mod Counts
pub mod Joined
pub mod Order
pub mod Parts
pub mod Shown
pub mod Steps
pub mod Whole

pub mod Decided
mod Found
mod Passed

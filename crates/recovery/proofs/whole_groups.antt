pub mod Noting
pub mod Pigeons
pub mod Whole

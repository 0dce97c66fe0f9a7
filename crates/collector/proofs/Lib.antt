pub mod LiveBelow
pub mod Named

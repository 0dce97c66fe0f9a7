pub mod PinRows
pub mod Pins
pub mod RowInside
pub mod Rows

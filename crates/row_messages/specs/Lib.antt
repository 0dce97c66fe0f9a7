pub mod Laid
pub mod RowShape

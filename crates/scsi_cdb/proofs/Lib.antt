pub mod ListRead
pub mod ReadRows

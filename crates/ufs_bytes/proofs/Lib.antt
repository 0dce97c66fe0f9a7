pub mod FieldRanges
pub mod ReadAgain

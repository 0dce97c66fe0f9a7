pub mod CoveredFrames
pub mod Written

pub mod FenceFallsLast
pub mod MarksAndRepairs
pub mod PlansAndCopies

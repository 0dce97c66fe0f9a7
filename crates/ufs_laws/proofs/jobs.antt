pub mod BadBlocks
pub mod JobsInFlight
pub mod JobsOnTheirDies
pub mod JobsStay
pub mod OneJob
pub mod SameJobs

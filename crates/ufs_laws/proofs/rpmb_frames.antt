pub mod AcceptedWrites
pub mod FailedWrites
pub mod FramesRead
pub mod Regions
pub mod RequestOutcomes
pub mod RightWrites
pub mod WorkedMacs

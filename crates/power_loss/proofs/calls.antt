pub mod CallsKeepTied
pub mod CallsLeaveTheDevice
pub mod RightChanges
pub mod TiesToDies

pub mod BorneFailures
pub mod FreeOverStops
pub mod RoomOfGroups
pub mod RoomOverStops

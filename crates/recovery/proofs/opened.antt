pub mod ContentPages
pub mod FoundOpens
pub mod LostLists
pub mod OutsidePages

pub mod AcceptedGroup
pub mod ClaimedSlots
pub mod RestsOfGroups

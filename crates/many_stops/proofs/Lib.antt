mod Common
pub mod CountedBlocks
pub mod finding_room
pub mod free_at_stops
pub mod room_left

pub mod AllMoves
pub mod BelowGroups
pub mod LaidContents
pub mod LaidGroups
pub mod LaidMoves
pub mod LaidStay

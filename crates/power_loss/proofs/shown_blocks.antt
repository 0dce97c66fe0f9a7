pub mod CommandsShowBlocks
pub mod LivesShowBlocks
pub mod LooksShowContents
pub mod PinsShowBlocks

pub mod CommandGroups
pub mod RequestedCommands

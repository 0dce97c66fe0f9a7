pub mod CommandsKeepPlain
pub mod GroupsOfCommands
pub mod ListParts
pub mod NewDevice
pub mod PlainFromContents

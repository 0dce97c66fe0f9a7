mod AcceptedFrames
mod AreaBlocks
mod EachRegion
mod EntryFacts
mod HeldUnits
mod KeptEntries
pub mod SettingLines
mod ShownFacts
pub mod UnmapLists

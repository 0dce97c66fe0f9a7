pub mod ListsJudged
pub mod SettingsCarried
pub mod SettingsWait
pub mod UnmapSlots

pub mod SettingsRead

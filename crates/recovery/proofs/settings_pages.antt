pub mod SettingsPages

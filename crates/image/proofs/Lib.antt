pub mod SettingsLaws

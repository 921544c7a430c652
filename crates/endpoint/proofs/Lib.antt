pub mod SettingUp
pub mod Looks

pub mod Halving
pub mod SettingOff
pub mod Moving
pub mod Ending

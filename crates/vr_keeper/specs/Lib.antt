pub mod Crashes
pub mod Keepers

pub mod Folders
pub mod Links
pub mod Listeners
pub mod Moving
pub mod Sinks
pub mod Sources

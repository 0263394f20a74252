pub mod Bodies
pub mod PageLists
pub mod FileMaps
pub mod Entries
pub mod Changes
pub mod Overlays
pub mod Kept

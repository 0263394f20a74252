pub mod Typed
pub mod Progress

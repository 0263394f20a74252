pub mod Faults
pub mod Instructions
pub mod Modules
pub mod Reader
pub mod Types

pub mod Constants
pub mod Faults
pub mod Functions
pub mod Linked
pub mod Opened
pub mod Opening
pub mod Plans

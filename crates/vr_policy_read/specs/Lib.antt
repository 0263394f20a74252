pub mod Faults
pub mod Limits
pub mod Members
pub mod Policies
pub mod PolicyData

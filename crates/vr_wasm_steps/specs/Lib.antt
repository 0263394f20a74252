pub mod Effects
pub mod Hosts
pub mod Rows
pub mod Runs
pub mod Store
pub mod Terms

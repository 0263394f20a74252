pub mod Checked
pub mod Faults
pub mod Places
pub mod Repeats
pub mod Rules

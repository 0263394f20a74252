pub mod Left
pub mod Loaded
pub mod Outcomes
pub mod Programs
pub mod Runs
pub mod Starts

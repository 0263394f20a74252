pub mod Flows
pub mod Lines
pub mod Script
pub mod Texts

pub mod Closing
pub mod Flows
pub mod Holders
pub mod Places
pub mod Reach

pub mod Agreement
pub mod Alike
pub mod Chains
pub mod Files
pub mod Fits
pub mod Isolation
pub mod Leaving

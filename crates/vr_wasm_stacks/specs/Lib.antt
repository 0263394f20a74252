pub mod Flat
pub mod Positions

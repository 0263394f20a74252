pub mod FaultLemmas
pub mod Letters
pub mod Longest
pub mod Masks
pub mod Normal
pub mod Places
pub mod Written

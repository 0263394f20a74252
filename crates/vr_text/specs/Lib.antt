pub mod Lines
pub mod Numerals
pub mod Refusals
pub mod Words

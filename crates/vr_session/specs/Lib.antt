pub mod Attendings
pub mod SharedBooks
pub mod Workers

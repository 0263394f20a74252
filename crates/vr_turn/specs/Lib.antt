pub mod Accounts
pub mod Seats
pub mod Rule
pub mod Plays
pub mod Turns

mod Histories
mod Joining
mod Keeping
pub mod Numbers
mod Places
mod Slots
mod Working

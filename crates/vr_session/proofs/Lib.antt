mod Asking
pub mod ComingBack
mod Sending
pub mod Seating
mod Settling

pub mod Iovecs
pub mod Layouts

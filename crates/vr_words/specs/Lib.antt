pub mod Grammar
pub mod Numbers
pub mod Options
pub mod Reading
pub mod Views

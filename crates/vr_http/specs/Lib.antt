pub mod Fields
pub mod HeadFields
pub mod Heads
pub mod Inboxes
pub mod Reading
pub mod Requests
pub mod Responses
pub mod Searches

pub mod Sending
pub mod Joining
pub mod Walks

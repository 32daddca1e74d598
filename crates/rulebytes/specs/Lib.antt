pub mod Reading
pub mod Accepted

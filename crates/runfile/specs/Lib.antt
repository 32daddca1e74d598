pub mod Reading
pub mod Places

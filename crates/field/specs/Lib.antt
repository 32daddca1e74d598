pub mod Reading
pub mod Gives

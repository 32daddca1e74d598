pub mod Turning
pub mod Reading
pub mod Running
pub mod Starting

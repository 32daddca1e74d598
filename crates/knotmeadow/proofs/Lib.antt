pub mod Models
pub mod Running
pub mod Telling

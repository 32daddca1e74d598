pub mod Made
pub mod Rows
pub mod Promise
pub mod Example

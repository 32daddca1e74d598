pub mod Committed
pub mod Events
pub mod Promise

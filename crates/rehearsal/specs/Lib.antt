pub mod Turns
pub mod Promise
pub mod Moving
pub mod EventLines
pub mod Committed
pub mod Whole

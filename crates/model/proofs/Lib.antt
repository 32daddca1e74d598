pub mod Steps
pub mod Loops
pub mod Rules
pub mod Promise

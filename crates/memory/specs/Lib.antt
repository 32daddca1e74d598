pub mod Memory
pub mod Promise
pub mod Laws
pub mod Keeping
pub mod Lent

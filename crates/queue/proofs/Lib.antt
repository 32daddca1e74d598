pub mod Reading
pub mod Nets
pub mod Orders
pub mod Arrivals
pub mod Verdicts
pub mod Cuts
pub mod Least
pub mod Walk

pub mod Stored
pub mod Accepted
pub mod Held
pub mod ReadBack

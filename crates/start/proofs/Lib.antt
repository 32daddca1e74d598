pub mod Sizes
pub mod First

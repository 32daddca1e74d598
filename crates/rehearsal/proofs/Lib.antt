pub mod Saying
pub mod Beginning
pub mod Stepping

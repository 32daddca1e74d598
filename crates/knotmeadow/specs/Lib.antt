pub mod Told
pub mod Zero
pub mod Links

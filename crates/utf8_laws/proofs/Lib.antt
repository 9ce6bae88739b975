pub mod Skipping
pub mod Ends
pub mod Texts
pub mod Steps

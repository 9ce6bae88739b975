pub mod Skipping
pub mod Longest

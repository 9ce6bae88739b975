pub mod Parts
pub mod Walk
pub mod Checks
pub mod Right

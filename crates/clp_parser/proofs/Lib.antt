pub mod Naming
pub mod Turns
pub mod Inputs
pub mod Parts
pub mod Steps

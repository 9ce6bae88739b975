pub mod Variables
pub mod Canonical
pub mod Solved
pub mod Load
pub mod Source
pub mod Variants

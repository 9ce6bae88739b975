pub mod Keeping
pub mod Built
pub mod Growing
pub mod Applications
pub mod Copies

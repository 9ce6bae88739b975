pub mod Smallness
pub mod Changes
pub mod Kept
pub mod Multiples
pub mod Shared
pub mod InOrder
pub mod Ranges
pub mod Clearing

pub mod Stored
pub mod Loose

pub mod Places
pub mod Weighed
pub mod Carried
pub mod Built
pub mod Meeting
pub mod Kept

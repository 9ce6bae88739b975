pub mod Places
pub mod Bound
pub mod Apart
pub mod Shown
pub mod Accepted

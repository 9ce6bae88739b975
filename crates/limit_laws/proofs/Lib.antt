pub mod Rewritings
pub mod Limits

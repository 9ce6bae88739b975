pub mod Weight
pub mod Ranked
pub mod Rules
pub mod Least
pub mod Entries

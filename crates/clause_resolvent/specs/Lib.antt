pub mod Raised
pub mod Atoms
pub mod Joined
pub mod Applied
pub mod Outcome

pub mod Names
pub mod Joined
pub mod Terms
pub mod Rows
pub mod Clauses

pub mod Wholes
pub mod Sums
pub mod Rows
pub mod Numbers
pub mod States
pub mod Terms
pub mod Constraints
pub mod Clauses

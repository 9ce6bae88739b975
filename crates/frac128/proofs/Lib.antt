pub mod Sums
pub mod Reducing
pub mod Opposites
pub mod Reciprocals

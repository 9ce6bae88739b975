pub mod Multiples
pub mod Lowest
pub mod Fractions
pub mod Sums
pub mod Rows

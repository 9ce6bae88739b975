pub mod Substituting
pub mod Equations
pub mod Unifying
pub mod Solving
pub mod Matching

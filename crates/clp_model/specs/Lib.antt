pub mod Names
pub mod Trees
pub mod Values
pub mod Clauses
pub mod Proof
pub mod Predicates
pub mod Canonical

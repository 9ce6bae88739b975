pub mod Trees
pub mod Unifiers
pub mod Clauses
pub mod Loading
pub mod Folding
pub mod States

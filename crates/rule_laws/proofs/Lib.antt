pub mod Joint
pub mod Unfolding
pub mod Merging
pub mod RowRules
pub mod Predicates
pub mod Folding
pub mod Dropping

pub mod Trees
pub mod Membership
pub mod RenamedTrees
pub mod CanonicalForms
pub mod Carrying

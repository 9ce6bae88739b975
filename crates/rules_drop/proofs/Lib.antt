pub mod SameTree
pub mod SameTrees
pub mod Removing

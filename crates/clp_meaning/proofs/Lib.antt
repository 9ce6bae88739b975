pub mod Renaming
pub mod Instances
pub mod Merging

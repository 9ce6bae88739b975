pub mod Samples
pub mod Folds

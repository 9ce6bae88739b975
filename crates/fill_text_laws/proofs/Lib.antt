pub mod Histories
pub mod Filling

pub mod Conditions
pub mod Filled

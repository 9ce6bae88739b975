pub mod Rows
pub mod Eliminations
pub mod Chains

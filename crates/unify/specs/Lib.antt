pub mod Places
pub mod Graphs
pub mod Pairs
pub mod Unifiers

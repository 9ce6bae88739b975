pub mod Chains
pub mod Flattening
pub mod Following
pub mod Rests
pub mod Sides

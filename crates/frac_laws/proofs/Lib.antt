pub mod Gcd
pub mod Reducing
pub mod Exact
pub mod Inverses
pub mod Turned

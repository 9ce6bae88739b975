pub mod Gcd
pub mod Forms
pub mod Normal
pub mod Changes
pub mod Elimination
pub mod Certificates
pub mod Items
pub mod Chain

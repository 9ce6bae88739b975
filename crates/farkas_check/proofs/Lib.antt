pub mod Products
pub mod Sums
pub mod Found
pub mod Walking
pub mod Sides
pub mod Rightness

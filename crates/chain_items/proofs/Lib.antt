pub mod Merging
pub mod Divisors
pub mod Spread
pub mod Joined
pub mod Comparing
pub mod Whole
pub mod Reading

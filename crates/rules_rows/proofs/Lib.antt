pub mod Moved
pub mod Broken
pub mod Sorted
pub mod Eliminated
pub mod Used
pub mod Agreeing

pub mod Values
pub mod Numbers
pub mod Meaning
pub mod RowInstances
pub mod Trees
pub mod Merges
pub mod Unfoldings
pub mod Printed

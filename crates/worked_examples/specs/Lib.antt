pub mod Samples
pub mod Numbers
pub mod Instances
pub mod Merges
pub mod Printed
pub mod Unfoldings

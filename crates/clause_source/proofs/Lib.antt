pub mod Numbered
pub mod Printed
pub mod Counts
pub mod Sources

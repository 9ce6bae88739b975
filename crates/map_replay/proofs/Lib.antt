pub mod Running
pub mod Printing
pub mod Sources

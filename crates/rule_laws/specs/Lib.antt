pub mod Steps
pub mod Laws
pub mod Rows
pub mod Folding
pub mod Dropping

pub mod Finding
pub mod Successive

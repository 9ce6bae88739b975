pub mod Adding
pub mod Making
pub mod Coefficients
pub mod Finding
pub mod Repeats

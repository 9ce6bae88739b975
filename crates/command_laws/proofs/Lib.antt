pub mod Plans
pub mod Rightly

pub mod Multipliers
pub mod Shown
pub mod ShownAll

pub mod Images
pub mod Internal
pub mod Folded
pub mod Marks

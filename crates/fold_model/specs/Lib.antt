pub mod Positions
pub mod Images
pub mod Internal
pub mod Folded
pub mod Definitions

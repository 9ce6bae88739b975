pub mod Names
pub mod Readable
pub mod Levels
pub mod Parts
pub mod Endings
pub mod Roles

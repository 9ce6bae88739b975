pub mod Tokens
pub mod Reading
pub mod Takes
pub mod Turns

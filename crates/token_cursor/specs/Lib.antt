pub mod Singles
pub mod Ahead
pub mod Escapes
pub mod Utf8

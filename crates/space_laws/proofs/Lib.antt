pub mod Meaning
pub mod Reading
pub mod Rules
pub mod Clauses
pub mod Programs
pub mod Places
pub mod Spaces

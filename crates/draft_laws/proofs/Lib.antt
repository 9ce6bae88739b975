pub mod Parts
pub mod ShortNames
pub mod Reading
pub mod Rules
pub mod Clauses

pub mod White
pub mod Numbers
pub mod Names
pub mod Marks
pub mod Tokens
pub mod Remaining
pub mod Parsers

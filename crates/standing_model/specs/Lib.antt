pub mod Pieces
pub mod Terms
pub mod Rows
pub mod Clauses
pub mod Parsable
pub mod Names

pub mod Status
pub mod Command
pub mod Lines
pub mod Plan
pub mod Causes
pub mod Answers

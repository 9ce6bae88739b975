pub mod Tables
pub mod Rules
pub mod Relations
pub mod Refusals
pub mod Limits
pub mod Faults

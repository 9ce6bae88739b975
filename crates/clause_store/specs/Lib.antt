pub mod Source
pub mod Faults
pub mod Stored
pub mod Names

pub mod Read
pub mod Faults

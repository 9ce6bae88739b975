pub mod Places
pub mod Tells
pub mod Words

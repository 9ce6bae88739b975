pub mod Digits
pub mod Show

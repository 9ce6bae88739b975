pub mod Loading
pub mod Written
pub mod Headline

pub mod Headline
pub mod Endings

pub mod Kept
pub mod Turning
pub mod Beginning
pub mod Answers

pub mod Shown
pub mod ShownAll
pub mod Again
pub mod Accepted
pub mod Filled

pub mod Growing
pub mod Entered
pub mod ReadOut
pub mod General

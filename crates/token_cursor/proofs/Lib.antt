pub mod Digits
pub mod Comments
pub mod Closings
pub mod Singles
pub mod Unescaping
pub mod Spelled
pub mod Texts

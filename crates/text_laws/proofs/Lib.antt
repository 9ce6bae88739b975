pub mod Printable
pub mod Texts
pub mod Programs
pub mod Loading
pub mod Laws
pub mod Numbered
pub mod Sources

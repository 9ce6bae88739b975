pub mod Moved
pub mod Same
pub mod Laws

pub mod Places
pub mod Behind
pub mod Laws

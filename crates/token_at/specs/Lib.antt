pub mod Before
pub mod Places

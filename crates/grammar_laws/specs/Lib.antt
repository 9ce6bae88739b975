pub mod Variables
pub mod Read
pub mod Laws

pub mod KeptState
pub mod Laws

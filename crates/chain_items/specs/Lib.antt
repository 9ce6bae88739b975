pub mod Sparse
pub mod Items
pub mod Keys

pub mod Bindings
pub mod Found
pub mod Images
pub mod Made
pub mod Weights

pub mod Table
pub mod Adding
pub mod Finding
pub mod Capped
pub mod Turning
pub mod Chains
pub mod Beginning
pub mod Answering

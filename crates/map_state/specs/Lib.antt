pub mod Seen
pub mod Inside
pub mod SeenCode
pub mod Faults
pub mod Changes
pub mod Filled
pub mod Rows

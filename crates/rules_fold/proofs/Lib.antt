pub mod Parts
pub mod Broken
pub mod Counted
pub mod ShownImages

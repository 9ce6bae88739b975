pub mod Reduced
pub mod Results

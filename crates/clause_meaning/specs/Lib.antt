pub mod Computes
pub mod Known
pub mod Made
pub mod MeaningCode
pub mod Numbers

pub mod Next
pub mod Names
pub mod Numbers
pub mod Marks

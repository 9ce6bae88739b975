pub mod Resolvent

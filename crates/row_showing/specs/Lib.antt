pub mod Several

pub mod Fields
pub mod Certificates
pub mod Script
pub mod ScriptText

pub mod MvcExtension
pub mod Ranges

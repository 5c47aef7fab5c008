pub mod Untouched
pub mod Members

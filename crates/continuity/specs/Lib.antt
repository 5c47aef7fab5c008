pub mod Following
pub mod Meaning
pub mod Examples

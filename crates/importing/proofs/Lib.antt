pub mod Meant
pub mod Examples

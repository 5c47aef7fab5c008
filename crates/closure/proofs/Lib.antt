pub mod Reached
pub mod Scan
pub mod Meant
pub mod Examples

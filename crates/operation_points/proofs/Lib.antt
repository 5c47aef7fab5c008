pub mod Parsed
pub mod Bytes
pub mod Judging
pub mod Meant
pub mod Examples

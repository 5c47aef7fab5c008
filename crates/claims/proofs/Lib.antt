pub mod Marking
pub mod Meant
pub mod Examples

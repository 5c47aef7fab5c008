pub mod Comparing
pub mod Steps
pub mod Ordinary
pub mod Copies
pub mod Meant

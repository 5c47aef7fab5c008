pub mod Joining
pub mod Steps
pub mod Meaning
pub mod Answer

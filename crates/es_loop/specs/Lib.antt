pub mod Reading
pub mod Meaning
pub mod Examples
pub mod Answer

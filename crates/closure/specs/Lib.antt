pub mod Closures
pub mod Meaning
pub mod Answer

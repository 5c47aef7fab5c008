pub mod Layout
pub mod Verdict
pub mod Writing
pub mod Weighing
pub mod Meaning
pub mod Examples
pub mod Answer

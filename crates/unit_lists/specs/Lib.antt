pub mod Sequence
pub mod Meaning
pub mod Writing

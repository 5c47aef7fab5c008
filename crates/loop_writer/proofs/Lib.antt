pub mod Entries
pub mod Pairs
pub mod Writes
pub mod Answers
pub mod Weights
pub mod Meant

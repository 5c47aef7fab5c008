pub mod Examples
pub mod Meaning
pub mod Ordering
pub mod Runs

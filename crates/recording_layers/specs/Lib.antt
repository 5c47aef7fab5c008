pub mod Meaning
pub mod Predecessors
pub mod Examples

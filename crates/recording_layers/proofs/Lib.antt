pub mod Meant
pub mod Predecessors

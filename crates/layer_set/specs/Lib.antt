pub mod Sets
pub mod Meaning

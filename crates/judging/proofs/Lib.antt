pub mod Loops
pub mod Meant
pub mod Sets

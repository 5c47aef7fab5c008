pub mod Sets
pub mod Left

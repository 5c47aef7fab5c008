pub mod Rest
pub mod Front

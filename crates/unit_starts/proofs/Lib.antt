pub mod Running
pub mod Walking

pub mod Adding
pub mod Walking

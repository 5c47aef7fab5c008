pub mod Clock
pub mod Examples

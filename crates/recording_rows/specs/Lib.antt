pub mod Columns
pub mod Again

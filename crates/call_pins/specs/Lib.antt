pub mod Loops
pub mod Times
pub mod Rows

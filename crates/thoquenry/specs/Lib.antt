pub mod Loops
pub mod Times
pub mod Bounds
pub mod Version
pub mod Examples

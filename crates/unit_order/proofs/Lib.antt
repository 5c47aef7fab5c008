pub mod Layer
pub mod Bounds
pub mod Each
pub mod Runs

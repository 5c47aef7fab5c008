pub mod Assembled
pub mod Assembling
pub mod Skipping
pub mod Own

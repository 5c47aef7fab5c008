pub mod Walked
pub mod Parts
pub mod Judged
pub mod Stored
pub mod Keeping
pub mod Meant
pub mod Read

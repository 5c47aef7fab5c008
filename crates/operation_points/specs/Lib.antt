pub mod Parts
pub mod Tables
pub mod Points
pub mod Values
pub mod Meaning
pub mod Answer

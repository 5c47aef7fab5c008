pub mod Rows
pub mod Weighing
pub mod Answer

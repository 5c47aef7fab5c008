pub mod Rows
pub mod Imports
pub mod Answer

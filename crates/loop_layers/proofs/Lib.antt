pub mod Columns
pub mod Walked
pub mod Pass
pub mod Meant
pub mod Accepted

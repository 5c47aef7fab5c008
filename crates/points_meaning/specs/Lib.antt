pub mod Fields
pub mod Telling
pub mod Meaning
pub mod Closed
pub mod Placed
pub mod Rows

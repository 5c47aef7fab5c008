pub mod Placing
pub mod Searching

pub mod Rows
pub mod Units
pub mod Leaks

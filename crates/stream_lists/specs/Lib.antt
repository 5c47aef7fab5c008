pub mod Insertion
pub mod Lists
pub mod Holding
pub mod Meaning

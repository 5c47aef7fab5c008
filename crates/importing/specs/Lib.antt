pub mod Importing
pub mod Meaning

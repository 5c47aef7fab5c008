pub mod Tables
pub mod HeaderData
pub mod Meaning

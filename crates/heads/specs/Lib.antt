pub mod Units
pub mod Judging
pub mod Meaning
pub mod Orderly

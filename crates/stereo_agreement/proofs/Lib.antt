pub mod Agreement
pub mod Skipped

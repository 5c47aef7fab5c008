pub mod Skipped
pub mod Closures
pub mod Agreement

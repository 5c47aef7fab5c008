pub mod Held
pub mod Descriptors

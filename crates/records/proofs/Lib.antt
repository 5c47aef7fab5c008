pub mod Sizes
pub mod Naming

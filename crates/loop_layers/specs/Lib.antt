pub mod Layers
pub mod Closures
pub mod Meaning
pub mod Examples

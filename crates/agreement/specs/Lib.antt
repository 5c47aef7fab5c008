pub mod Meaning
pub mod Records
pub mod Looking
pub mod Entries
pub mod Layers
pub mod Closures
pub mod Joined
pub mod Computed

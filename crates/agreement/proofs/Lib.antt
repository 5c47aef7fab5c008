pub mod Looking
pub mod Entries
pub mod Layers
pub mod Computed
pub mod Agreement
pub mod Examples

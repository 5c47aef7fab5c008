pub mod Buffers
pub mod Examples

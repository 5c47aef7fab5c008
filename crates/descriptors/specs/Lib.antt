pub mod Looking
pub mod Finding
pub mod Meaning

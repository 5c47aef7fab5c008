pub mod Spans
pub mod Meaning
pub mod Examples

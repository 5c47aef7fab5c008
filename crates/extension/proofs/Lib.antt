pub mod Bytes
pub mod Payloads
pub mod Widths

pub mod Heads
pub mod Bits
pub mod Widths

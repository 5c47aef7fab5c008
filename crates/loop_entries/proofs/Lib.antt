pub mod Heads
pub mod Front

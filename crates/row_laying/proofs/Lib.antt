pub mod Tails
pub mod Walked

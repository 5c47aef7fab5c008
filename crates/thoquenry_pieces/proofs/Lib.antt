pub mod Feeding
pub mod Starting

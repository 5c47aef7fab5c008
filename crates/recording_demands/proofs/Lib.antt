pub mod Filled
pub mod Agreement
pub mod Reaching

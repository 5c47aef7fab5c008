pub mod Claims
pub mod Standing
pub mod Order
pub mod Sizes
pub mod Unique

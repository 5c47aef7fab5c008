pub mod Standing
pub mod Tallying
pub mod Filled

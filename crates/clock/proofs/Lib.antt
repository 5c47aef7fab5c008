pub mod Laws
pub mod Differences

pub mod Walk
pub mod Meant

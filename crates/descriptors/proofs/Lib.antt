pub mod Steps
pub mod Walk
pub mod Cases
pub mod Finding
pub mod Meant

pub mod Keys
pub mod Meant
pub mod Measuring

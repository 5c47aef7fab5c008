pub mod Both
pub mod Meant

pub mod Walk
pub mod Meant
pub mod Marks

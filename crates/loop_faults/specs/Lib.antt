pub mod Conditions
pub mod Outlined

pub mod Fields
pub mod Two

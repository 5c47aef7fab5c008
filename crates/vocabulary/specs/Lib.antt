pub mod Refusals
pub mod StreamTypes

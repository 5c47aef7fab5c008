pub mod Pairs
pub mod Verdicts
pub mod Walk
pub mod Meant

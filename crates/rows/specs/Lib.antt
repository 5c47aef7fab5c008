pub mod Table
pub mod Verdicts
pub mod Meaning

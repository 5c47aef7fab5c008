pub mod Tables
pub mod Reading
pub mod Judging
pub mod Meaning
pub mod Examples
pub mod Answer

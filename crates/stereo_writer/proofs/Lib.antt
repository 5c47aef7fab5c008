pub mod Sizes
pub mod Passed
pub mod Decided
pub mod Bytes
pub mod Judging
pub mod Meant

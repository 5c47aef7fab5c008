pub mod Copies
pub mod Judged
pub mod Fed

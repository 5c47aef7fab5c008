pub mod Marked
pub mod Passing
pub mod Unknown

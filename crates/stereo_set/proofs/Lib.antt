pub mod Kept
pub mod Walk
pub mod Named
pub mod Places
pub mod Judged
pub mod Meant

pub mod Tables
pub mod Stamps

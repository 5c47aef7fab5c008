pub mod Views
pub mod Set
pub mod Reading
pub mod Two
pub mod Meaning

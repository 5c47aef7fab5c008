pub mod Held
pub mod Laid
pub mod Left
pub mod Reading

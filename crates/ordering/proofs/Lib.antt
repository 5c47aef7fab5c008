pub mod Halves
pub mod Laws
pub mod Meant
pub mod Merging
pub mod Stored

pub mod Rule
pub mod Meaning
pub mod Walking
pub mod Marking

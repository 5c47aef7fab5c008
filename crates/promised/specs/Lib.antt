pub mod Calls
pub mod Shown
pub mod Readers
pub mod Writers
pub mod Joiners

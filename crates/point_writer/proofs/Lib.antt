pub mod Walking
pub mod Heads
pub mod Lengths
pub mod Judged
pub mod PartLaws
pub mod Values
pub mod Meant

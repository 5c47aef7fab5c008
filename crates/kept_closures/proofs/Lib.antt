pub mod Resting
pub mod Fresh
pub mod Putting
pub mod Steps
pub mod Less
pub mod Worked
pub mod Answered

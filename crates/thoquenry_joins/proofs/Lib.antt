pub mod Rooms
pub mod Joined
pub mod Stored
pub mod Bounds

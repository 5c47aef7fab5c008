pub mod Fields
pub mod Loop
pub mod Points
pub mod Meant
pub mod Closed
pub mod Placed
pub mod Rows
pub mod Examples

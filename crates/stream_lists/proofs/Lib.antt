pub mod Opened
pub mod Placed
pub mod Building
pub mod Inserting
pub mod Closing
pub mod Meant
pub mod Union
pub mod Examples

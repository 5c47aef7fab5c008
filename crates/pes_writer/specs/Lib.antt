pub mod Writing
pub mod OwnShape
pub mod Answer

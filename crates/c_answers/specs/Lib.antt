pub mod Answers
pub mod Answer

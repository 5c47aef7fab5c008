pub mod Preparing
pub mod Answering
pub mod Meant
pub mod Answered
pub mod AnswerMeant

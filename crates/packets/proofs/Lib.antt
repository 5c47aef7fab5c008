pub mod FieldLaws
pub mod JudgingLaws
pub mod Meant

pub mod HeaderDataLaws
pub mod FieldLaws
pub mod WalkLaws

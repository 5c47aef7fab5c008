pub mod WritingLaws
pub mod OwnShapeLaws

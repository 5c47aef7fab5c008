pub mod HeadLaws
pub mod VideoLaws
pub mod MeaningLaws

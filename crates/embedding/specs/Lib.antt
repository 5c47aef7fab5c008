pub mod Before
pub mod ReadingBefore
pub mod WritingBefore
pub mod Changed

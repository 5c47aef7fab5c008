pub mod OwnParsed
pub mod ReadPoint
pub mod ReadBack
pub mod Rewriting
pub mod OwnPoint

pub mod Parsed
pub mod ReadPoint
pub mod ReadBack
pub mod OwnShape
pub mod OwnParsed
pub mod Rewriting

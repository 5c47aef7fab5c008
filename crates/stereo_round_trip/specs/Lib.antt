pub mod Pieces
pub mod ReadBack
pub mod OwnShape
pub mod Rewriting

pub mod ReadBack
pub mod OwnShape

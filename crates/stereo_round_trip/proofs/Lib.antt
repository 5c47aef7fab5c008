pub mod SetBack
pub mod ReadBack
pub mod Rewriting
pub mod Bare

pub mod ReadBack
pub mod Verdicts
pub mod RoundTrip
pub mod Rewriting

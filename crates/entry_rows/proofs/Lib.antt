pub mod Widths
pub mod Fits
pub mod Given
pub mod Judged
pub mod Laws
pub mod RoundTrips

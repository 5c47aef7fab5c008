-- The laws that hold between reader and writer, and of the reading before.
pub mod ThreeTimesLaws
pub mod RoundTrips
pub mod Examples

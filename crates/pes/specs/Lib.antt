pub mod ThreeTimes

pub mod Stops
pub mod Reached
pub mod Benches
pub mod Samples
pub mod Gradings
pub mod Beside
pub mod Results
pub mod Ticks

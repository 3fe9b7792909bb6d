pub mod ObservedBits
pub mod Heads
pub mod ReadLines
pub mod Fitting
pub mod Answered

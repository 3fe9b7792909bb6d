pub mod Ahead
pub mod Decisions
pub mod Grading
pub mod Sampling
pub mod Strobes

pub mod Wakes
pub mod Gathered
pub mod Kept

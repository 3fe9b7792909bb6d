mod Clean
mod Freed
mod Own
pub mod Kept
mod Passed

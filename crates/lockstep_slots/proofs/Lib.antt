pub mod Kept
mod Pairs
pub mod Followed
mod Moments
mod Moved
mod Standing
mod Told

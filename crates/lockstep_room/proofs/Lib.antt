pub mod Standing
pub mod Followed

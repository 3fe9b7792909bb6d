pub mod Lists
pub mod Taken
pub mod Stopping
mod Lanes
pub mod Going
pub mod Kept
pub mod Stopped
mod Joined
mod Told
mod Filled

pub mod Leaving
pub mod Resting
pub mod Leading
pub mod Ends
pub mod Pending

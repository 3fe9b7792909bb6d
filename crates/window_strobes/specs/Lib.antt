pub mod Watched
pub mod Known
pub mod Passed
pub mod Slots
pub mod Neighbours
pub mod Leading
pub mod Seen
pub mod Strobes

pub mod Phases
pub mod Lockstep
pub mod Turning
pub mod Passing
pub mod Blocks
pub mod Slots
pub mod Moments

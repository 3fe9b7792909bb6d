pub mod Runs
pub mod Processes
pub mod Phases
pub mod Joined
pub mod Slots
pub mod Numbers

pub mod Boundaries
pub mod Pending
pub mod Readiness
pub mod Ends
pub mod Wakes

-- The walk through the hierarchy: what holds of its parts, its instances and its levels.
pub mod Given
pub mod Levels
pub mod Walks
pub mod Levelled
pub mod Processes
pub mod Visits
pub mod Visited
pub mod Joined
pub mod Signals
pub mod Behaviours

pub mod Standing
pub mod Moments
pub mod RunNotes
pub mod Ticks
pub mod Guides
pub mod Phases
pub mod BesideRuns

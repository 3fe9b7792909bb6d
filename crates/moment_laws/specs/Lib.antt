pub mod Shown
pub mod Places
pub mod Passing
pub mod Steps
pub mod Begins
pub mod Turns
pub use Rattle.lockstep_places.specs as lockstep_places
pub use Rattle.window_places.specs as window_places
pub use Rattle.lockstep_slots.specs as lockstep_slots
pub use Rattle.moment_runs.specs as moment_runs
pub use Rattle.moment_parts.specs as moment_parts
pub use Rattle.window_wakes.specs as window_wakes

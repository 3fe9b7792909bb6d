pub mod Phases
pub mod Reached
pub use Rattle.lockstep_notes.specs as lockstep_notes
pub use Rattle.lockstep_notes.specs.window_tests as window_tests
pub use Rattle.lockstep_notes.specs.window_places as window_places
pub use Rattle.lockstep_notes.specs.lockstep_slots as lockstep_slots

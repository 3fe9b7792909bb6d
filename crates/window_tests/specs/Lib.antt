pub mod Between
pub mod Stretches
pub use Rattle.window_places.specs as window_places
pub use Rattle.lockstep_slots.specs as lockstep_slots

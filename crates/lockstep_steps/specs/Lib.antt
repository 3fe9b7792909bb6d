pub mod Going
pub mod Laws
pub use Rattle.lockstep_notes.specs as lockstep_notes
pub use Rattle.lockstep_notes.specs.window_places as window_places
pub use Rattle.lockstep_copies.specs as lockstep_copies
pub use Rattle.lockstep_notes.specs.lockstep_slots as lockstep_slots

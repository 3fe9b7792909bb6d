pub mod Events
pub mod Steps
pub use Rattle.lockstep_notes.proofs as lockstep_notes
pub use Rattle.lockstep_notes.proofs.lockstep_slots as lockstep_slots

pub mod Loops
pub mod Written
pub use Rattle.lockstep_notes.proofs as lockstep_notes
pub use Rattle.lockstep_notes.proofs.window_tests as window_tests
pub use Rattle.lockstep_notes.proofs.lockstep_slots as lockstep_slots

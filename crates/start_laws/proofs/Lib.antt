mod Starts
pub use Rattle.lockstep_steps.proofs as lockstep_steps
pub use Rattle.lockstep_steps.proofs.lockstep_notes as lockstep_notes
pub use Rattle.lockstep_steps.proofs.lockstep_slots as lockstep_slots

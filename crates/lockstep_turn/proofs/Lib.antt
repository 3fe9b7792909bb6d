mod Writes
pub use Rattle.phase_faults.proofs as phase_faults
pub use Rattle.phase_faults.proofs.slot_laws as slot_laws
pub use Rattle.phase_faults.proofs.beside_phases as beside_phases
pub use Rattle.phase_faults.proofs.lockstep_block as lockstep_block
pub use Rattle.phase_faults.proofs.lockstep_room as lockstep_room
pub use Rattle.phase_faults.proofs.copy_skip as copy_skip
pub use Rattle.phase_faults.proofs.lockstep_steps as lockstep_steps
pub use Rattle.phase_faults.proofs.lockstep_filter as lockstep_filter
pub use Rattle.phase_faults.proofs.moment_laws as moment_laws
pub use Rattle.phase_faults.proofs.next_touches as next_touches
pub use Rattle.phase_faults.proofs.lockstep_slots as lockstep_slots
pub use Rattle.phase_faults.proofs.block_events as block_events

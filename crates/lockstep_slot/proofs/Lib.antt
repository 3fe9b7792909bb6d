mod Lists
mod Begun
mod Beside
mod Coming
pub use Rattle.lockstep_phase.proofs.phase_faults as phase_faults
pub use Rattle.lockstep_phase.proofs.slot_laws as slot_laws
pub use Rattle.lockstep_phase.proofs.lockstep_block as lockstep_block
pub use Rattle.lockstep_phase.proofs.lockstep_room as lockstep_room
pub use Rattle.lockstep_phase.proofs.moment_laws as moment_laws
pub use Rattle.lockstep_phase.proofs.next_touches as next_touches
pub use Rattle.lockstep_phase.proofs.block_events as block_events

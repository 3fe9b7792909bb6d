pub mod Beside
pub use Rattle.lockstep_phase.specs.phase_faults as phase_faults
pub use Rattle.lockstep_phase.specs.slot_laws as slot_laws
pub use Rattle.lockstep_phase.specs.lockstep_block as lockstep_block
pub use Rattle.lockstep_phase.specs.lockstep_room as lockstep_room
pub use Rattle.lockstep_phase.specs.start_laws as start_laws
pub use Rattle.lockstep_phase.specs.moment_laws as moment_laws
pub use Rattle.lockstep_phase.specs.next_touches as next_touches
pub use Rattle.lockstep_phase.specs.block_events as block_events

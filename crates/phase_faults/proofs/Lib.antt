pub mod Lists
pub mod Sooner
pub mod Moving
pub mod Waiting
pub mod Again
pub mod Through
pub use Rattle.slot_laws.proofs as slot_laws
pub use Rattle.slot_laws.proofs.beside_phases as beside_phases
pub use Rattle.slot_laws.proofs.lockstep_block as lockstep_block
pub use Rattle.slot_laws.proofs.lockstep_room as lockstep_room
pub use Rattle.slot_laws.proofs.copy_skip as copy_skip
pub use Rattle.slot_laws.proofs.lockstep_steps as lockstep_steps
pub use Rattle.slot_laws.proofs.lockstep_filter as lockstep_filter
pub use Rattle.slot_laws.proofs.moment_laws as moment_laws
pub use Rattle.next_touches.proofs as next_touches
pub use Rattle.slot_laws.proofs.lockstep_slots as lockstep_slots
pub use Rattle.slot_laws.proofs.block_events as block_events

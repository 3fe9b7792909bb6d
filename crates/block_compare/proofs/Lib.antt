pub mod Same
pub mod Kept
pub use Rattle.lockstep_room.proofs as lockstep_room
pub use Rattle.moment_shown.proofs.lockstep_exchange as lockstep_exchange
pub use Rattle.moment_shown.proofs.copy_skip as copy_skip
pub use Rattle.moment_shown.proofs.lockstep_slots as lockstep_slots
pub use Rattle.runner_writes.proofs.block_events as block_events

pub mod Puts
pub mod Entries
pub mod Kept
pub mod Fits
pub mod Whole
pub use Rattle.copy_skip.proofs as copy_skip
pub use Rattle.lockstep_copy.proofs.lockstep_slots as lockstep_slots
pub use Rattle.block_events.proofs as block_events

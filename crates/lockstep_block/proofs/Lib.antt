pub mod Showing
pub mod Passed
pub mod GoodWrites
pub mod KeptBehind
pub mod TriedThere
pub mod OwnRuns
pub mod OwnBlocks
pub mod EndedRuns
pub mod Noted
pub use Rattle.faulty_block.proofs.lockstep_room as lockstep_room
pub use Rattle.faulty_block.proofs.lockstep_exchange as lockstep_exchange
pub use Rattle.faulty_block.proofs.copy_skip as copy_skip
pub use Rattle.lockstep_steps.proofs as lockstep_steps
pub use Rattle.lockstep_filter.proofs as lockstep_filter
pub use Rattle.good_moment.proofs.moment_laws as moment_laws
pub use Rattle.lockstep_steps.proofs.lockstep_slots as lockstep_slots
pub use Rattle.faulty_block.proofs.block_events as block_events

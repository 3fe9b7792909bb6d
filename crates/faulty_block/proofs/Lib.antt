pub mod Rests
pub mod Counted
pub mod Lanes
pub mod KeptAlike
pub mod Ran
pub mod PutBack
pub mod Differs
pub use Rattle.block_compare.proofs as block_compare
pub use Rattle.block_compare.proofs.lockstep_room as lockstep_room
pub use Rattle.block_compare.proofs.lockstep_exchange as lockstep_exchange
pub use Rattle.block_compare.proofs.copy_skip as copy_skip
pub use Rattle.block_runner.proofs as block_runner
pub use Rattle.block_compare.proofs.block_events as block_events

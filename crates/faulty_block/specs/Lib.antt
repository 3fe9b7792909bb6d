pub mod Runs
pub mod Back
pub use Rattle.block_compare.specs as block_compare
pub use Rattle.block_compare.specs.moment_shown as moment_shown
pub use Rattle.block_compare.specs.lockstep_room as lockstep_room
pub use Rattle.block_compare.specs.lockstep_exchange as lockstep_exchange
pub use Rattle.block_compare.specs.copy_skip as copy_skip
pub use Rattle.block_compare.specs.lockstep_compare as lockstep_compare
pub use Rattle.block_compare.specs.lockstep_copy as lockstep_copy
pub use Rattle.block_compare.specs.block_events as block_events
pub use Rattle.block_runner.specs as block_runner

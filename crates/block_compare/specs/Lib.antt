pub mod Comparing
pub use Rattle.moment_shown.specs as moment_shown
pub use Rattle.lockstep_room.specs as lockstep_room
pub use Rattle.moment_shown.specs.lockstep_exchange as lockstep_exchange
pub use Rattle.moment_shown.specs.copy_skip as copy_skip
pub use Rattle.moment_shown.specs.lockstep_compare as lockstep_compare
pub use Rattle.moment_shown.specs.lockstep_copy as lockstep_copy
pub use Rattle.moment_shown.specs.lockstep_slots as lockstep_slots
pub use Rattle.runner_writes.specs.block_events as block_events

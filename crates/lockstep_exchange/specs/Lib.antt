pub mod Shown
pub mod Putting
pub mod Exchange
pub use Rattle.copy_skip.specs as copy_skip
pub use Rattle.lockstep_copy.specs as lockstep_copy
pub use Rattle.lockstep_copy.specs.lockstep_slots as lockstep_slots
pub use Rattle.block_events.specs as block_events

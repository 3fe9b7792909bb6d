pub mod Counts
pub mod Strobes
pub use Rattle.lockstep_shards.specs as lockstep_shards
pub use Rattle.lockstep_shards.specs.copy_pass as copy_pass
pub use Rattle.lockstep_shards.specs.copy_window as copy_window
pub use Rattle.lockstep_shards.specs.copy_room as copy_room
pub use Rattle.lockstep_shards.specs.copy_skip as copy_skip
pub use Rattle.lockstep_shards.specs.lockstep_copies as lockstep_copies
pub use Rattle.lockstep_shards.specs.window_beside as window_beside
pub use Rattle.lockstep_shards.specs.window_strobes as window_strobes
pub use Rattle.lockstep_shards.specs.graded_steps as graded_steps
pub use Rattle.lockstep_shards.specs.fault_grade as fault_grade
pub use Rattle.lockstep_shards.specs.machine as machine

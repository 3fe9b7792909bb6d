pub mod Due
pub use Rattle.window_faults.specs as window_faults
pub use Rattle.window_faults.specs.slot_strobes as slot_strobes
pub use Rattle.window_faults.specs.lockstep_shards as lockstep_shards
pub use Rattle.window_faults.specs.copy_pass as copy_pass
pub use Rattle.window_faults.specs.copy_window as copy_window
pub use Rattle.window_faults.specs.copy_room as copy_room
pub use Rattle.window_faults.specs.copy_skip as copy_skip
pub use Rattle.block_skip.specs as block_skip
pub use Rattle.window_faults.specs.lockstep_copies as lockstep_copies
pub use Rattle.window_faults.specs.window_beside as window_beside
pub use Rattle.window_faults.specs.window_strobes as window_strobes
pub use Rattle.window_faults.specs.graded_steps as graded_steps
pub use Rattle.window_faults.specs.fault_grade as fault_grade
pub use Rattle.window_faults.specs.machine as machine

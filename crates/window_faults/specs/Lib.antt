pub mod Steps
pub mod Within
pub use Rattle.slot_strobes.specs as slot_strobes
pub use Rattle.slot_strobes.specs.lockstep_shards as lockstep_shards
pub use Rattle.slot_strobes.specs.copy_pass as copy_pass
pub use Rattle.slot_strobes.specs.copy_window as copy_window
pub use Rattle.slot_strobes.specs.copy_room as copy_room
pub use Rattle.slot_strobes.specs.copy_skip as copy_skip
pub use Rattle.slot_strobes.specs.lockstep_copies as lockstep_copies
pub use Rattle.slot_strobes.specs.window_beside as window_beside
pub use Rattle.slot_strobes.specs.window_strobes as window_strobes
pub use Rattle.slot_strobes.specs.graded_steps as graded_steps
pub use Rattle.slot_strobes.specs.fault_grade as fault_grade
pub use Rattle.slot_strobes.specs.machine as machine

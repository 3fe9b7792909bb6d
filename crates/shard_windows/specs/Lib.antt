pub mod Reached
pub mod Fresh
pub use Rattle.shard_slots.specs.window_faults as window_faults
pub use Rattle.shard_slots.specs.copy_window as copy_window
pub use Rattle.shard_slots.specs.window_strobes as window_strobes
pub use Rattle.shard_slots.specs.graded_steps as graded_steps
pub use Rattle.shard_slots.specs.fault_grade as fault_grade
pub use Rattle.shard_slots.specs.machine as machine

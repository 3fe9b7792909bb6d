pub mod Shards
pub use Rattle.copy_pass.specs as copy_pass
pub use Rattle.copy_pass.specs.copy_window as copy_window
pub use Rattle.copy_pass.specs.copy_room as copy_room
pub use Rattle.copy_pass.specs.copy_skip as copy_skip
pub use Rattle.lockstep_copies.specs as lockstep_copies
pub use Rattle.copy_pass.specs.window_beside as window_beside
pub use Rattle.copy_pass.specs.window_strobes as window_strobes
pub use Rattle.copy_pass.specs.graded_steps as graded_steps
pub use Rattle.copy_pass.specs.fault_grade as fault_grade
pub use Rattle.copy_pass.specs.machine as machine

pub mod Copies
pub mod ShardFaults
pub mod Passing
pub use Rattle.copy_room.specs as copy_room
pub use Rattle.window_strobes.specs as window_strobes
pub use Rattle.graded_steps.specs as graded_steps
pub use Rattle.fault_grade.specs as fault_grade
pub use Rattle.window_beside.specs as window_beside

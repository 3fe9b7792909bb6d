pub mod Alone
pub use Rattle.copy_window.specs as copy_window
pub use Rattle.copy_window.specs.copy_room as copy_room
pub use Rattle.run_stands.specs as run_stands
pub use Rattle.copy_skip.specs as copy_skip
pub use Rattle.copy_window.specs.window_beside as window_beside
pub use Rattle.copy_window.specs.window_strobes as window_strobes
pub use Rattle.copy_window.specs.graded_steps as graded_steps
pub use Rattle.copy_window.specs.fault_grade as fault_grade
pub use Rattle.run_stands.specs.machine as machine

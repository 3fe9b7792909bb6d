pub mod Slots
pub mod Ended
pub use Rattle.copy_lockstep.specs.window_faults as window_faults
pub use Rattle.copy_lockstep.specs.copy_window as copy_window
pub use Rattle.copy_lockstep.specs.window_strobes as window_strobes
pub use Rattle.copy_lockstep.specs.graded_steps as graded_steps
pub use Rattle.copy_lockstep.specs.fault_grade as fault_grade
pub use Rattle.copy_lockstep.specs.machine as machine

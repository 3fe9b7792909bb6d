pub mod Somes
pub mod Ended
pub mod Entering
pub mod Numbers
pub mod Leaving
pub mod Looping
pub mod Beside
pub mod Starting
pub use Rattle.copy_lockstep.proofs.window_faults as window_faults
pub use Rattle.copy_lockstep.proofs.copy_window as copy_window
pub use Rattle.copy_lockstep.proofs.window_strobes as window_strobes
pub use Rattle.copy_lockstep.proofs.fault_grade as fault_grade

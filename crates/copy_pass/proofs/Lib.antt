pub mod Strobes
pub mod Slots
pub mod Left
pub mod Watched
pub mod Rules
pub mod Passed
pub use Rattle.copy_window.proofs as copy_window
pub use Rattle.copy_skip.proofs as copy_skip
pub use Rattle.copy_window.proofs.window_strobes as window_strobes
pub use Rattle.copy_window.proofs.fault_grade as fault_grade

pub mod Laws
pub mod Keeping
pub mod Entering
mod Leaving
mod Passing
mod Seeing
pub use Rattle.copy_pass.proofs as copy_pass
pub use Rattle.copy_pass.proofs.copy_window as copy_window
pub use Rattle.copy_pass.proofs.copy_skip as copy_skip
pub use Rattle.copy_pass.proofs.window_strobes as window_strobes
pub use Rattle.copy_pass.proofs.fault_grade as fault_grade

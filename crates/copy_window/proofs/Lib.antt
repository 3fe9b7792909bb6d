pub mod Codes
pub mod Windows
pub mod Gradings
pub mod Ticks
pub mod Settling
pub mod Keeping
pub mod Starting
pub mod Rules
pub mod Entering
pub use Rattle.window_strobes.proofs as window_strobes
pub use Rattle.fault_grade.proofs as fault_grade

mod SlotsLeft
mod Texts
mod Readings
pub mod Loops
pub use Rattle.fault_grade.proofs as fault_grade

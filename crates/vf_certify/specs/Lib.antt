pub mod Runs
pub mod Lines
pub mod Answers
pub use Rattle.fault_grade.specs as fault_grade

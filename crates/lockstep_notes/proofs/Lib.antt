pub mod Changes
pub mod Marks
pub mod Pairs
pub mod Told
pub use Rattle.window_tests.proofs as window_tests
pub use Rattle.window_tests.proofs.lockstep_slots as lockstep_slots

pub mod Pairs
pub mod Told
pub use Rattle.lockstep_slots.proofs as lockstep_slots

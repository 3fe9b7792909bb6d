mod Lists
mod Turned
mod Writes
pub use Rattle.lockstep_slots.proofs as lockstep_slots

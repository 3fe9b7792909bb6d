mod Front
mod Words
mod Contents
mod Sites
mod Holding
mod Started
pub use Rattle.lockstep_slots.proofs as lockstep_slots

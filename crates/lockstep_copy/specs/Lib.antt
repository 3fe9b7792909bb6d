pub mod Kept
pub mod Laws
pub use Rattle.lockstep_slots.specs as lockstep_slots

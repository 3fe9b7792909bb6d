pub mod Rooms
pub mod Reached
pub mod Start
pub use Rattle.lockstep_slots.specs as lockstep_slots

pub mod Moved
pub mod Following
pub mod Readied
mod Begun
mod Arrived
mod NextPhase
pub use Rattle.lockstep_slots.proofs as lockstep_slots
pub use Rattle.moment_runs.proofs as moment_runs
pub use Rattle.moment_parts.proofs as moment_parts

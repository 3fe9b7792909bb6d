mod BlockAt
pub mod Told
pub mod Ended
pub mod Behind
pub mod Passed
pub mod Shifted
pub use Rattle.moment_laws.proofs as moment_laws
pub use Rattle.moment_laws.proofs.lockstep_slots as lockstep_slots
pub use Rattle.moment_laws.proofs.moment_runs as moment_runs
pub use Rattle.moment_laws.proofs.moment_parts as moment_parts

pub mod Ahead
mod Bounds
mod Possible
mod Assembled
pub mod Joined
pub use Rattle.shown_blocks.proofs as shown_blocks
pub use Rattle.shown_blocks.proofs.moment_laws as moment_laws
pub use Rattle.shown_blocks.proofs.lockstep_slots as lockstep_slots
pub use Rattle.shown_blocks.proofs.moment_runs as moment_runs

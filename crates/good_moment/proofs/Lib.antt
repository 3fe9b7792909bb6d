mod First
mod Parts
mod Phases
mod Waking
pub use Rattle.passed_blocks.proofs.shown_blocks as shown_blocks
pub use Rattle.passed_blocks.proofs.moment_laws as moment_laws
pub use Rattle.moment_parts.proofs as moment_parts

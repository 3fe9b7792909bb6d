pub mod Kept
pub use Rattle.passed_blocks.specs.shown_blocks as shown_blocks
pub use Rattle.passed_blocks.specs.moment_laws as moment_laws
pub use Rattle.passed_blocks.specs.lockstep_places as lockstep_places
pub use Rattle.moment_parts.specs as moment_parts
pub use Rattle.passed_blocks.specs.window_wakes as window_wakes

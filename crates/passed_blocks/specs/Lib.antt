pub mod Passed
pub use Rattle.shown_blocks.specs as shown_blocks
pub use Rattle.shown_blocks.specs.moment_laws as moment_laws
pub use Rattle.shown_blocks.specs.lockstep_places as lockstep_places
pub use Rattle.shown_blocks.specs.lockstep_slots as lockstep_slots
pub use Rattle.shown_blocks.specs.moment_runs as moment_runs
pub use Rattle.shown_blocks.specs.window_wakes as window_wakes

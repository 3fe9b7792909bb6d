pub mod Ahead
pub mod Blocks
pub mod Passages
pub use Rattle.moment_laws.specs as moment_laws
pub use Rattle.moment_laws.specs.lockstep_places as lockstep_places
pub use Rattle.moment_laws.specs.window_places as window_places
pub use Rattle.moment_laws.specs.lockstep_slots as lockstep_slots
pub use Rattle.moment_laws.specs.moment_runs as moment_runs
pub use Rattle.moment_laws.specs.moment_parts as moment_parts
pub use Rattle.moment_laws.specs.window_wakes as window_wakes

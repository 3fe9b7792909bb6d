pub mod Shown
pub use Rattle.lockstep_exchange.specs as lockstep_exchange
pub use Rattle.lockstep_exchange.specs.copy_skip as copy_skip
pub use Rattle.lockstep_compare.specs as lockstep_compare
pub use Rattle.lockstep_exchange.specs.lockstep_copy as lockstep_copy
pub use Rattle.lockstep_exchange.specs.lockstep_slots as lockstep_slots
pub use Rattle.moment_parts.specs as moment_parts

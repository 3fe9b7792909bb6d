pub mod Good
pub mod Faults
pub mod Windows
pub mod Outcomes
pub use Rattle.kept_shard.specs as kept_shard
pub use Rattle.kept_shard.specs.fault_grade as fault_grade

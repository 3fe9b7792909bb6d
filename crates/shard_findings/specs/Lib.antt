pub mod AllWorkers
pub mod Gatherings
pub use Rattle.shard_claims.specs as shard_claims
pub use Rattle.shard_claims.specs.shard_turns as shard_turns
pub use Rattle.shard_claims.specs.copy_shard as copy_shard
pub use Rattle.shard_claims.specs.graded_steps as graded_steps
pub use Rattle.shard_claims.specs.fault_grade as fault_grade
pub use Rattle.shard_claims.specs.machine as machine

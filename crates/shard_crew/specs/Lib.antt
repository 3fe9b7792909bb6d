pub mod Crews
pub mod Crossings
pub mod Leaving
pub use Rattle.shard_findings.specs as shard_findings
pub use Rattle.shard_findings.specs.shard_claims as shard_claims
pub use Rattle.shard_findings.specs.shard_turns as shard_turns
pub use Rattle.shard_findings.specs.copy_shard as copy_shard
pub use Rattle.shard_findings.specs.graded_steps as graded_steps
pub use Rattle.shard_findings.specs.fault_grade as fault_grade
pub use Rattle.shard_findings.specs.machine as machine

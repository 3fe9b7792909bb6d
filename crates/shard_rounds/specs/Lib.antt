pub mod Rounds
pub mod Outcomes
pub use Rattle.shard_crew.specs.shard_findings as shard_findings
pub use Rattle.shard_crew.specs.shard_claims as shard_claims
pub use Rattle.shard_crew.specs.copy_shard as copy_shard
pub use Rattle.shard_crew.specs.fault_grade as fault_grade

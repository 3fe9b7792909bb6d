pub mod Crossing
pub mod Left
pub mod Ticks
pub mod Visiting
pub use Rattle.shard_findings.proofs as shard_findings
pub use Rattle.shard_findings.proofs.shard_claims as shard_claims
pub use Rattle.shard_findings.proofs.shard_turns as shard_turns
pub use Rattle.shard_findings.proofs.copy_shard as copy_shard
pub use Rattle.shard_findings.proofs.fault_grade as fault_grade

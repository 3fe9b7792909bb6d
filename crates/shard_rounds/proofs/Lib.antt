pub mod Going
pub mod Ticks
pub mod Backing
pub use Rattle.shard_crew.proofs.shard_findings as shard_findings
pub use Rattle.shard_crew.proofs.shard_claims as shard_claims
pub use Rattle.shard_crew.proofs.copy_shard as copy_shard
pub use Rattle.shard_crew.proofs.fault_grade as fault_grade

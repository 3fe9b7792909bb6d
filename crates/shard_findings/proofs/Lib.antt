pub mod Manning
pub mod Gathering
pub mod Ticks
pub use Rattle.shard_claims.proofs as shard_claims
pub use Rattle.shard_claims.proofs.shard_turns as shard_turns
pub use Rattle.shard_claims.proofs.copy_shard as copy_shard
pub use Rattle.shard_claims.proofs.fault_grade as fault_grade

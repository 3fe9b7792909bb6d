pub mod Seeing
pub mod Shards
pub mod Going
pub use Rattle.kept_shard.proofs as kept_shard
pub use Rattle.kept_shard.proofs.fault_grade as fault_grade

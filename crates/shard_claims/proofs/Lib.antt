pub mod Claiming
pub mod Ticks
pub use Rattle.shard_turns.proofs as shard_turns
pub use Rattle.shard_turns.proofs.copy_shard as copy_shard
pub use Rattle.shard_turns.proofs.fault_grade as fault_grade

pub mod Counts
pub mod Steps
pub mod Seats
pub mod Faults
pub mod Keeping
pub use Rattle.copy_shard.proofs as copy_shard
pub use Rattle.copy_shard.proofs.shard_windows as shard_windows
pub use Rattle.copy_shard.proofs.fault_grade as fault_grade

pub mod Claims
pub mod Backups
pub mod Turns
pub mod Going
pub mod Visits
pub use Rattle.copy_shard.specs as copy_shard
pub use Rattle.copy_shard.specs.shard_windows as shard_windows
pub use Rattle.copy_shard.specs.graded_steps as graded_steps
pub use Rattle.copy_shard.specs.fault_grade as fault_grade
pub use Rattle.copy_shard.specs.machine as machine

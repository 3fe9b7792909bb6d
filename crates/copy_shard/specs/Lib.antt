pub mod Shards
pub mod Kept
pub mod Together
pub mod Copied
pub use Rattle.shard_windows.specs as shard_windows
pub use Rattle.shard_windows.specs.graded_steps as graded_steps
pub use Rattle.shard_windows.specs.fault_grade as fault_grade
pub use Rattle.shard_windows.specs.machine as machine

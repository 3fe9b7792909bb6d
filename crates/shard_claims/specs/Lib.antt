pub mod Workers
pub mod WorkerLaws
pub use Rattle.shard_turns.specs as shard_turns
pub use Rattle.shard_turns.specs.copy_shard as copy_shard
pub use Rattle.shard_turns.specs.graded_steps as graded_steps
pub use Rattle.shard_turns.specs.fault_grade as fault_grade
pub use Rattle.shard_turns.specs.machine as machine

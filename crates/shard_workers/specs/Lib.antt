pub mod Results
pub mod Ordered
pub mod Closings
pub use Rattle.shard_rounds.specs.fault_grade as fault_grade

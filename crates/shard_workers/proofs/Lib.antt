pub mod Closes
pub mod Ordering
pub mod Speaking
pub mod Ticks
pub mod Gradings
pub use Rattle.shard_rounds.proofs.fault_grade as fault_grade

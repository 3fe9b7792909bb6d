pub mod Places
pub mod Starting
pub mod Through
pub mod Ticks
pub mod Standing
pub mod Joining
pub mod Groups
pub mod Copies
pub use Rattle.shard_windows.proofs as shard_windows
pub use Rattle.shard_windows.proofs.fault_grade as fault_grade

pub mod Places
pub mod Swapping
pub mod Ends
pub mod Standing
pub mod Ticks
pub mod Windows
pub use Rattle.shard_windows.proofs as shard_windows
pub use Rattle.shard_windows.proofs.window_strobes as window_strobes
pub use Rattle.shard_windows.proofs.fault_grade as fault_grade

pub mod Lists
pub mod Counted
mod Watching
mod Seeing
mod Sampled
pub use Rattle.lockstep_shards.proofs as lockstep_shards
pub use Rattle.lockstep_shards.proofs.copy_pass as copy_pass
pub use Rattle.lockstep_shards.proofs.copy_window as copy_window
pub use Rattle.lockstep_shards.proofs.copy_skip as copy_skip
pub use Rattle.lockstep_shards.proofs.window_strobes as window_strobes
pub use Rattle.lockstep_shards.proofs.fault_grade as fault_grade

pub mod Lists
pub mod Through
pub mod Beginning
pub use Rattle.shard_slots.proofs.window_faults as window_faults
pub use Rattle.shard_slots.proofs.copy_window as copy_window
pub use Rattle.shard_slots.proofs.window_strobes as window_strobes
pub use Rattle.shard_slots.proofs.fault_grade as fault_grade

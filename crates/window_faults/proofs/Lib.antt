pub mod Lists
pub mod Steps
pub mod Within
pub use Rattle.slot_strobes.proofs as slot_strobes
pub use Rattle.slot_strobes.proofs.lockstep_shards as lockstep_shards
pub use Rattle.slot_strobes.proofs.copy_pass as copy_pass
pub use Rattle.slot_strobes.proofs.copy_window as copy_window
pub use Rattle.slot_strobes.proofs.copy_skip as copy_skip
pub use Rattle.slot_strobes.proofs.window_strobes as window_strobes
pub use Rattle.slot_strobes.proofs.fault_grade as fault_grade

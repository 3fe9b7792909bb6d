mod Entries
pub use Rattle.window_faults.proofs as window_faults
pub use Rattle.window_faults.proofs.slot_strobes as slot_strobes
pub use Rattle.window_faults.proofs.lockstep_shards as lockstep_shards
pub use Rattle.window_faults.proofs.copy_pass as copy_pass
pub use Rattle.window_faults.proofs.copy_window as copy_window
pub use Rattle.window_faults.proofs.copy_skip as copy_skip
pub use Rattle.window_faults.proofs.window_strobes as window_strobes
pub use Rattle.window_faults.proofs.fault_grade as fault_grade

pub use Rattle.lockstep_exchange.proofs as lockstep_exchange
pub use Rattle.lockstep_exchange.proofs.copy_skip as copy_skip
pub use Rattle.lockstep_exchange.proofs.lockstep_slots as lockstep_slots
pub use Rattle.moment_parts.proofs as moment_parts

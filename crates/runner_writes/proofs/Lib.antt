pub use Rattle.block_events.proofs as block_events

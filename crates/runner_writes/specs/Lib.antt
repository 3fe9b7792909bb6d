pub mod Each
pub use Rattle.block_events.specs as block_events

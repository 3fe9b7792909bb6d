pub mod Standing
pub use Rattle.machine.specs as machine

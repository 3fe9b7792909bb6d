pub mod Rooms
pub mod Putting
pub use Rattle.machine.specs as machine

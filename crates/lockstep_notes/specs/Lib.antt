pub mod Notes
pub mod Beside
pub mod Likes
pub mod Laws
pub use Rattle.window_tests.specs as window_tests
pub use Rattle.window_tests.specs.window_places as window_places
pub use Rattle.window_tests.specs.lockstep_slots as lockstep_slots

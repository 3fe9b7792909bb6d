pub mod Status
pub use Rattle.elaborate.specs as elaborate

pub mod Answers
pub mod Inputs
pub mod Outside
pub mod Making
pub use Rattle.vf_status.specs as vf_status
pub use Rattle.vf_status.specs.elaborate as elaborate

pub mod Puts
pub mod OneAnswer
pub mod Making
pub mod OverTest
pub mod Existing
pub mod Completing
pub use Rattle.vf_status.proofs.elaborate as elaborate

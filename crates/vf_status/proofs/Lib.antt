pub use Rattle.elaborate.proofs as elaborate

pub mod Texts
pub mod FirstFaults
pub use Rattle.cert_report.proofs as cert_report
pub use Rattle.dict_report.proofs as dict_report
pub use Rattle.grades_exist.proofs as grades_exist

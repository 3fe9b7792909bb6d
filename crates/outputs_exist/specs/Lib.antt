pub mod Existing
pub use Rattle.cert_report.specs as cert_report
pub use Rattle.dict_report.specs as dict_report
pub use Rattle.plan_report.specs as plan_report
pub use Rattle.grades_exist.specs as grades_exist

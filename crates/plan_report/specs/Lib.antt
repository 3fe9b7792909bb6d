pub mod Reports
pub mod OneMeaning

pub mod Objects
pub mod Report

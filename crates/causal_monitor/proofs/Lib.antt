pub mod Kept
pub mod OrderLaws
pub mod LinkLaws
pub mod ChangeLaws
pub mod TotalLaws
pub mod AddLaws
pub mod LogLaws

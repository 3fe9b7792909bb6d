pub mod Views
pub mod NodeOrder
pub mod LoopLaws
pub mod Buckets
pub mod OrderLaws

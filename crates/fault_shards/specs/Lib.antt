pub mod Representatives
pub mod Cuts
pub mod Shards
pub mod Found
pub mod FoundLaws
pub mod CutLaws

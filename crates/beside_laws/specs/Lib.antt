pub mod Stands
pub mod Gradings
pub mod GoodRuns
pub mod Shards

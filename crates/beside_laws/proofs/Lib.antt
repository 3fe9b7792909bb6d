pub mod Runs
pub mod Again
pub mod Gradings
pub mod GoodRuns
pub mod Shards

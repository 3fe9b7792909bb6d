pub mod Counts
pub mod Unawaited
pub mod OneRun
pub mod Readers

pub mod Counts
pub mod Unawaited

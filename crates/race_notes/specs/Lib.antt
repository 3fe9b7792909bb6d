pub mod Notes
pub mod Access
pub mod Told
pub mod Spans

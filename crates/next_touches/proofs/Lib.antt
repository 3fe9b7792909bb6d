mod Known
mod Kept
pub mod Untouched

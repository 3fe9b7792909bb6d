pub mod Tried
pub mod Known

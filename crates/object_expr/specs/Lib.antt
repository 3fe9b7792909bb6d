pub mod Meanings
pub mod Narrow

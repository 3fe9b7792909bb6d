pub mod Kept
pub mod Deeds

pub mod Races
pub mod Writes

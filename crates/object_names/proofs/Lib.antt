pub mod TableTurns
pub mod Meanings
pub mod OutputTurns

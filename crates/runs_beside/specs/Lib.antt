pub mod Runs
pub mod Beside
pub mod Choice

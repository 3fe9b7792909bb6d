pub mod Slots
pub mod Again

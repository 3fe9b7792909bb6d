pub mod Places
pub mod Kept
pub mod Slots
pub mod Again

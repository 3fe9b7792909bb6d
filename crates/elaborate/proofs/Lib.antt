mod Drives
pub mod Stops
pub mod Refused
pub mod Steps

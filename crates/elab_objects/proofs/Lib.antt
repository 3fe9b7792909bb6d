pub mod Places
pub mod Owners

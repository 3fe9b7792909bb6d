pub mod Words
pub mod Planes
pub mod Views
pub mod Bitwise
pub mod Parts
pub mod Readings
pub mod Places
pub mod Numbers

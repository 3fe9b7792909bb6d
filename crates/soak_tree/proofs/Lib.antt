pub mod Digits
pub mod Drawn

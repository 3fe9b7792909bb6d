pub mod Known
pub mod Beside

pub mod Steps
pub mod Below
pub mod Rows
pub mod Bounds

pub mod Loops
pub mod Below
pub mod Rows
pub mod Groups

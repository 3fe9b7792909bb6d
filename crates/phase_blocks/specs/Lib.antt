pub mod Blocks
pub mod Running

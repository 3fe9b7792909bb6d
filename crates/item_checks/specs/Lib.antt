pub mod Widths
pub mod Wholes
pub mod Memories
pub mod Groups
pub mod CodeFaults

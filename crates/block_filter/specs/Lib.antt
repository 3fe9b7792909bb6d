pub mod Likes
pub mod Blocks
pub mod Suffice

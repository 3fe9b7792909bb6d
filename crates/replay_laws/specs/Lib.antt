pub mod Times
pub mod Claimed
pub mod Looked

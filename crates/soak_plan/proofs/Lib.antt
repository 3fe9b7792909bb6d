pub mod Read
pub mod Watched
pub mod Counted
pub mod Whole

pub mod Words
pub mod Steps
pub mod Growing
pub mod Pairs
pub mod Following
pub mod Looking

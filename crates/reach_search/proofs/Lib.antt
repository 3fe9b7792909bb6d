pub mod Steps
pub mod Searched
pub mod Sets

pub mod Unseen

pub mod Woken
pub mod Left

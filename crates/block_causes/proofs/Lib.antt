pub mod Worked
pub mod Caused

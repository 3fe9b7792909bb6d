pub mod Said
pub mod Full
pub mod Strobes
pub mod Shown
pub mod Reached

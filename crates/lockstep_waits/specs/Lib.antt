pub mod Awaited
pub mod Texts
pub mod Begun

pub mod Stretches
pub mod FreeObjects
pub mod MetObjects

pub mod Slots
pub mod Strobes
pub mod Gradings
pub mod Ticks

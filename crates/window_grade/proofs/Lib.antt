pub mod OwnRises
pub mod Slots
pub mod Placed
pub mod Passing
pub mod Through

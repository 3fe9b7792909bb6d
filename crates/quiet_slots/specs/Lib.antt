pub mod FirstSlots
pub mod Quiet
pub mod Strobes
pub mod SlotMoves
pub mod SlotTimes
pub mod Pending

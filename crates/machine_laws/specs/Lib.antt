pub mod SlotLoop
pub mod Waits
pub mod WriteTells
pub mod StepTells

mod Opened
mod SlotLines

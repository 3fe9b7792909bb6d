pub mod Gates
pub mod Parts
pub mod ValuesOf
pub mod Overlaid
pub mod Running
pub mod RunLaws
pub mod WriteLaws
pub mod Rooms

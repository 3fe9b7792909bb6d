pub mod Lanes
pub mod Within
pub mod StatesKept
pub mod Turned

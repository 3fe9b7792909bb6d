pub mod Meanings
pub mod Ends
pub mod Endless
pub mod Needing
pub mod Holding
pub mod Picking

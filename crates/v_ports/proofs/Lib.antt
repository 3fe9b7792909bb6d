pub mod Uses
pub mod Cutting

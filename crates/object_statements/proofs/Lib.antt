pub mod Items
pub mod Rows
pub mod Sizes
pub mod Levels
pub mod Runs

pub mod Joins
pub mod Heres
pub mod Drives
pub mod Wholes
pub mod Gates
pub mod Forms
pub mod Narrow
pub mod Runs

pub mod Index
pub mod Tables
pub mod WaitLaws
pub mod Waits

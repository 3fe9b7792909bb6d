pub mod GradeTimes
pub mod Settling
pub mod Words

pub mod Stops
pub mod LineGrades
pub mod FullGrades

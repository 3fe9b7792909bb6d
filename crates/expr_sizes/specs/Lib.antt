pub mod ExprReadings
pub mod Bounds
pub mod PartReadings
pub mod WidthLaws
pub mod Answers
pub mod TargetReadings
pub mod Spelled

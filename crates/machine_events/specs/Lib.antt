pub mod Parts
pub mod Alone
pub mod StepDeeds
pub mod Turns
pub mod PartLaws
pub mod There
pub mod Steps

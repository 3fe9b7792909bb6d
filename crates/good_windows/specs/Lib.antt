pub mod Next
pub mod Stages
pub mod Puts

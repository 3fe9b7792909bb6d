pub mod GoodStates
pub mod Led
pub mod Counting
pub mod Seeing
pub mod Beginning
pub mod Knowing
pub mod Behind
pub mod Resting

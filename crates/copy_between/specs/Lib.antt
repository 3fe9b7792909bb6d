pub mod Differing
pub mod DifferingLaws
pub mod Beside
pub mod BesideLaws
pub mod OneState

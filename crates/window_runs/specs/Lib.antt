pub mod Placed
pub mod RunsByProcess
pub mod Standing
pub mod RunLaws
pub mod Through
pub mod OfPhase
pub mod OfSlot

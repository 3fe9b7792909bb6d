pub mod NamedSignals
pub mod WrittenTurns
pub mod BlockLaws
pub mod DriveTurns

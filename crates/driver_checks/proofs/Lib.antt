pub mod DrivingTurns
pub mod OverlapTurns
pub mod CheckTurns
pub mod SecondTurns

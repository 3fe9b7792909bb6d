pub mod ConnectionTurns
pub mod CountLaws
pub mod OutputLaws

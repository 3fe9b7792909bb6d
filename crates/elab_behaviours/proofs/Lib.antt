pub mod Assigning
pub mod BehaviourTurns

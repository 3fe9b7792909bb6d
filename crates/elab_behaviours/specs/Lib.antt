pub mod Assignments
pub mod BehaviourLists

pub mod PartViews
pub mod BehaviourViews
pub mod BitLaws

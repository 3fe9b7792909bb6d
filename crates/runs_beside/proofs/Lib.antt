pub mod Kept
pub mod Grown
pub mod Phases
pub mod Next
pub mod Choosing
pub mod Stepped
pub mod GoingOn

pub mod NameFaults
pub mod WalkFaults
pub mod CountViews
pub mod ModuleViews
pub mod Sites
pub mod Leaves
pub mod Within

pub mod Phases
pub mod Free

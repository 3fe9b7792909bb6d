pub mod Trees
pub mod MemoryLaws
pub mod GroupsGrow
pub mod Wholes
pub mod Widths
